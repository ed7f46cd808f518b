-- The registers and the steps of a CIC with prioritised indices, and what is promised of them.
pub mod Model
pub mod Promises
pub mod Registers
pub mod Tables
