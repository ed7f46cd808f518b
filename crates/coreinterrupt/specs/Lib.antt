-- CoreInterrupt: one side, the controller of two sides, and what is promised of both.
pub mod Model
pub mod Promises
pub mod Side
pub mod SidesPromises
pub mod Tables
