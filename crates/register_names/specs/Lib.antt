-- Registers in words: rows, maps, how the program has them, and what is promised of them.
pub mod Maps
pub mod Promises
pub mod Rows
pub mod Table
