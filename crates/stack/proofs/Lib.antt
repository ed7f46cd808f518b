-- Theorems about stack sizes, and about tables that are kept.
pub mod BoundLaws
pub mod ClimbLaws
pub mod FigureLaws
pub mod KeptLaws
pub mod KeptPromises
pub mod KeptWorked
pub mod PrintedLaws
pub mod Promises
pub mod RangeLaws
pub mod RunLaws
pub mod SetupLaws
pub mod SumLaws
pub mod Worked
