-- Typed tables: the text, its numbers, what is read of it, and what is promised of that.
pub mod Facts
pub mod Layout
pub mod Named
pub mod Names
pub mod Number
pub mod Passes
pub mod Promises
pub mod Reading
pub mod Slips
pub mod SlipsPromises
pub mod Typed
