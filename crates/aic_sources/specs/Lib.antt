-- The AT91 controller's sources and its two outputs.
pub mod Fast
pub mod Normal
pub mod Pending
pub mod Search
pub mod Promises
