-- The picture of a window of a trace, and what is promised of it.
pub mod Lines
pub mod Picture
pub mod Promises
pub mod Window
