-- The laws of the figures, and the proof of what is promised of them.
pub mod FigureLaws
pub mod NestingLaws
pub mod PromiseLaws
pub mod Promises
pub mod RunLaws
pub mod TellLaws
pub mod WaitLaws
pub mod Worked
