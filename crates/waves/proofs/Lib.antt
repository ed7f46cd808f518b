-- The laws of signals and of waves, and the proof of what is promised of them.
pub mod Examples
pub mod FitLaws
pub mod HeadingLaws
pub mod NumberLaws
pub mod PaddingLaws
pub mod Promises
pub mod ReadLaws
pub mod SignalLaws
pub mod SignalsHeadingLaws
pub mod SignalsPromises
pub mod StepLaws
pub mod TextLaws
pub mod TickLaws
pub mod WaveLaws
