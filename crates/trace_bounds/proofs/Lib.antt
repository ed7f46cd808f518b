-- What the functions of this crate rest on, and its promises.
pub mod EachLaws
pub mod LineLaws
pub mod ListLaws
pub mod Promises
pub mod SizeLaws
pub mod WaitLaws
