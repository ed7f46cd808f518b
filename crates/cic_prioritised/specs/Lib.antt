-- How many status words a read looks at, and what is promised of it.
pub mod Looking
pub mod Promises
