-- What is promised of the CIC's steps.
pub mod Promises
pub mod Tables
