-- The priority table of an AIC as it is typed, and what is promised of it.
pub mod Promises
pub mod Text
