-- The proofs of the worked cases and of what the contracts shut out.
pub mod CaseLaws
pub mod CheatLaws
pub mod Promises
