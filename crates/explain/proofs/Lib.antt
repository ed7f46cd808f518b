-- The laws of explained traces, and the proof of what is promised of them.
pub mod AgainLaws
pub mod AgainPromises
pub mod BackLaws
pub mod DigitLaws
pub mod ExplainLaws
pub mod LineLaws
pub mod Promises
pub mod SaidLaws
pub mod SameLaws
pub mod SizeLaws
pub mod SpellingLaws
pub mod StatedLaws
pub mod StatementLaws
pub mod TextLaws
pub mod WordLaws
