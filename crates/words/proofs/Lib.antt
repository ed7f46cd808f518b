-- The laws of choices, of counting, of orders and of words that every other crate cites.
pub mod ArrayLaws
pub mod ChoiceLaws
pub mod CountingLaws
pub mod HopLaws
pub mod OrderLaws
pub mod Promises
pub mod ShiftLaws
pub mod TruthLaws
pub mod WordLaws
