-- What is promised of a listing, and what it is promised of.
pub mod Indexed
pub mod Promises
