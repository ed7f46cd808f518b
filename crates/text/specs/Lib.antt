-- Text in a lent buffer, and what is promised of it.
pub mod ArgumentsPromises
pub mod Bytes
pub mod Numeral
pub mod Phrases
pub mod PhrasesPromises
pub mod Promises
pub mod Text
pub mod Typed
