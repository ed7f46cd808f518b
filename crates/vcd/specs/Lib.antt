-- The text of a value change dump, how it is read back, and what is promised of both.
pub mod Dump
pub mod Promises
pub mod Replay
