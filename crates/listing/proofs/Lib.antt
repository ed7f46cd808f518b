-- The worked listings, and the proof of what is promised.
pub mod Examples
pub mod IndexedExamples
pub mod ListedLaws
pub mod MovedLaws
pub mod OffLaws
pub mod Promises
