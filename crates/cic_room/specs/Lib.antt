-- The steps of a CIC in a room.
pub mod Bits
pub mod Copies
pub mod Promises
pub mod Reply
pub mod Room
pub mod Tables
