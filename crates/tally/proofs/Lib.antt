-- The laws of the figures of a trace, and the proof of what is promised of them.
pub mod LengthLaws
pub mod LoopLaws
pub mod Promises
pub mod TallyLaws
pub mod TurnLaws
