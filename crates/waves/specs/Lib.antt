-- The signals of each kind, the waves of a trace, and what is promised of them.
pub mod Moments
pub mod Promises
pub mod Signals
pub mod SignalsPromises
pub mod Waves
