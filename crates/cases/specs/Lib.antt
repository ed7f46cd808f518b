-- The worked cases of 01, and the ways to cheat that it names.
pub mod Cases
pub mod Cheats
pub mod Promises
