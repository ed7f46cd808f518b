-- The page of the tuning sheet, and what is promised of it.
pub mod End
pub mod Head
pub mod Levels
pub mod Meaning
pub mod Names
pub mod Order
pub mod Parts
pub mod Promises
pub mod Rows
pub mod Sources
pub mod Texts
pub mod Worked
