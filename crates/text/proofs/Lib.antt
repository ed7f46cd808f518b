-- The laws of texts and buffers that the crates above cite, and the proof of what is promised.
pub mod ArgumentsPromises
pub mod BytesLaws
pub mod DigitLaws
pub mod DigitsLaws
pub mod NumeralLaws
pub mod OverLaws
pub mod PhrasesPromises
pub mod Promises
pub mod RoomLaws
pub mod SizeLaws
pub mod TypedLaws
pub mod WriteLaws
