-- The figures of a trace, and what is promised of them.
pub mod Following
pub mod Promises
pub mod Tally
