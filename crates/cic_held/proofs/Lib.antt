-- The laws of what is held, and the proof of what is promised of it.
pub mod HeldLaws
pub mod IndexLaws
pub mod IndicesPromises
pub mod LookedLaws
pub mod NamedLaws
pub mod Promises
pub mod SearchLaws
