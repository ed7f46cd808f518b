-- What every controller in a room shares.
pub mod Parts
pub mod Promises
pub mod Reply
