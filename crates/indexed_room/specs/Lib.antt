-- The CIC with prioritised indices in a room.
pub mod Entered
pub mod Marks
pub mod Promises
pub mod Reply
pub mod Room
pub mod Search
pub mod Words
