-- A trace explained: its statements in canonical form, what is said of each step, and what is promised of that.
pub mod AgainPromises
pub mod Explain
pub mod Promises
pub mod Read
pub mod Said
pub mod Stated
