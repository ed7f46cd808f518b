-- Laws of the record of a board, of what it answers and of what changes it, and the proof of what is promised.
pub mod AnswerLaws
pub mod AskLaws
pub mod ChangeLaws
pub mod LineLaws
pub mod NumberLaws
pub mod Promises
pub mod RecordLaws
pub mod RecordPromises
pub mod SoundLaws
pub mod WiredLaws
pub mod WriteLaws
