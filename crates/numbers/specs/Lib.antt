-- The numbers of a trace, and what is promised of them.
pub mod Number
pub mod Promises
