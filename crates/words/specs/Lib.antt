-- Words of sources, choices and counting, for every crate of the project.
pub mod Array
pub mod Choice
pub mod Counting
pub mod Promises
pub mod Word
