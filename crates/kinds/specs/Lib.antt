-- The kinds of controller, how each is configured, and what is promised of them.
pub mod Configuration
pub mod Kinds
pub mod Promises
