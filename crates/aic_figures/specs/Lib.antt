-- The figures of an AIC that stands in a room, and those of all its waits, as they are kept beside it, and what is promised of the latter.
pub mod Book
pub mod Promises
pub mod Waits
pub mod WaitsBook
