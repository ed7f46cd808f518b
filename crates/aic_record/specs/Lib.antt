-- The AT91 controller's record: its parts, its reset, and the rules of a sound one.
pub mod Last
pub mod LastPromises
pub mod Mode
pub mod Passes
pub mod Promises
pub mod Record
pub mod Sound
