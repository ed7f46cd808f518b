-- The steps of an AINTC in a room.
pub mod First
pub mod Promises
pub mod Reply
pub mod Room
