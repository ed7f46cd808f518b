-- The laws of numbers that the crates above cite, and the proof of what is promised.
pub mod Examples
pub mod FormLaws
pub mod GroupLaws
pub mod NumberLaws
pub mod Promises
pub mod ReadLaws
pub mod ShortLaws
