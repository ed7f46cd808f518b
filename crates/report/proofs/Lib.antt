-- The laws of lines, texts, names and totals, and the proof of what is promised of them.
pub mod LineLaws
pub mod NameLaws
pub mod OrderLaws
pub mod Promises
pub mod PutLaws
pub mod SizeLaws
pub mod SourceLaws
