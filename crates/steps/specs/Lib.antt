-- Refusal numbers, the order of the checks, and what is promised of them.
pub mod Promises
pub mod Refusals
pub mod Tables
