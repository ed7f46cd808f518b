-- What a step touches, in words, and what is promised of that.
pub mod Fields
pub mod Promises
pub mod Registers
