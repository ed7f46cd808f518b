-- Laws of rows, of what they say of an offset, of how the program has them, and of texts.
pub mod CicLaws
pub mod ExactLaws
pub mod FitLaws
pub mod Promises
pub mod RowLaws
pub mod TableLaws
pub mod TextLaws
