-- The steps of a trace, and what is promised of them.
pub mod Promises
pub mod Steps
pub mod Trace
pub mod Turns
