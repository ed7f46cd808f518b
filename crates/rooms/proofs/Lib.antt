-- Laws of rooms: what stands in a part, and what a store to it does.
pub mod PartLaws
pub mod Promises
