-- Laws of what a step touches, in words.
pub mod FieldLaws
pub mod Promises
pub mod RegisterLaws
