-- Laws of the wires of a board, and the proof of what is promised of them.
pub mod ChainLaws
pub mod InputLaws
pub mod NumberLaws
pub mod PairLaws
pub mod Promises
pub mod UnusedLaws
pub mod WireLaws
