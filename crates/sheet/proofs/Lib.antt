-- The laws of the page, and the proof of what is promised of it.
pub mod NameLaws
pub mod OrderLaws
pub mod PageLaws
pub mod PageSizeLaws
pub mod Promises
pub mod SizeLaws
pub mod TurnLaws
