-- The laws of what the sheet takes from a trace, and the proof of what is promised of it.
pub mod LoopLaws
pub mod NoteLaws
pub mod Promises
pub mod SeenLaws
pub mod TalliedLaws
pub mod WatchLaws
