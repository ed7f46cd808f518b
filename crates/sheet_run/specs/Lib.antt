-- The sheet after names.
pub mod Put
