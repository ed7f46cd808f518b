-- What the wires of a board carry, and what is promised of them.
pub mod Chain
pub mod Pair
pub mod Promises
pub mod Wires
