-- What is moved in a room.
pub mod Shifted
