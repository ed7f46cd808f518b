-- The sources of the AT91 controller kept by level, and the steps of a record with its levels beside it.
pub mod Levels
pub mod Model
pub mod Promises
pub mod Runs
