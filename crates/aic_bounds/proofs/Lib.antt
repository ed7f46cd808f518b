-- Theorems about the bound of a wait.
pub mod BestLaws
pub mod FigureLaws
pub mod FiguresPromises
pub mod FollowLaws
pub mod MarkLaws
pub mod MostLaws
pub mod PlaceLaws
pub mod Promises
pub mod StepLaws
pub mod SumLaws
pub mod TermLaws
pub mod WordLaws
pub mod Worked
