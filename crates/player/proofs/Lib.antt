-- The law of the loops, and the proof of what is promised.
pub mod LookedPromises
pub mod LoopLaws
pub mod Promises
