-- What each source did over a run, and what is promised of it.
pub mod Figures
pub mod Following
pub mod Promises
pub mod Worked
