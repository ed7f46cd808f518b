-- What is promised of a player.
pub mod After
pub mod LookedPromises
pub mod Promises
