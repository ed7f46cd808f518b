-- The laws of beginnings.
pub mod BeginLaws
pub mod BeginningLaws
pub mod KnownLaws
pub mod OwnLaws
pub mod PlayLaws
