-- The waits of a source over a trace, the text that tells them, and what is promised of both.
pub mod Figures
pub mod Lines
pub mod Listing
pub mod Promises
pub mod Waits
