-- The laws of steps and traces that the crates above cite, and the proof of what is promised.
pub mod Examples
pub mod Promises
pub mod StepLaws
pub mod TraceLaws
pub mod TurnLaws
pub mod TurnsStepLaws
