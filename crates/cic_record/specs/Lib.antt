-- The CIC's record: its parts, which records are sound, and the start.
pub mod Kinds
pub mod Parts
pub mod Promises
pub mod Record
pub mod Sound
pub mod Start
