-- The steps of a controller of any kind, and what is promised of them.
pub mod Machine
pub mod Promises
pub mod RecordPromises
pub mod Shown
pub mod Steps
