-- The laws of the sheet after names.
pub mod HeldLaws
pub mod PutLaws
