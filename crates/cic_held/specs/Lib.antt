-- What is held beside a CIC, when a record is sound, the start, what ends holds, and what is promised of all of it.
pub mod Example
pub mod Held
pub mod IndicesPromises
pub mod Looked
pub mod Order
pub mod Promises
pub mod Search
