-- What the tuning sheet takes from a trace, and what is promised of it.
pub mod Following
pub mod Left
pub mod Noted
pub mod Promises
pub mod Watched
