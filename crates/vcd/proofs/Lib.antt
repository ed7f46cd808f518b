-- The laws of a dump's text and of its reading back, and the proof of what is promised of both.
pub mod BinaryLaws
pub mod ChangeLaws
pub mod HeadingLaws
pub mod LineLaws
pub mod Promises
pub mod ReplayLaws
pub mod SizeLaws
