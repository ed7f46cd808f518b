-- What a step did, in words, and what is promised of that.
pub mod Deeds
pub mod Promises
