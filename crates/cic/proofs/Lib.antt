-- The laws of steps, and the proof of what is promised of them.
pub mod FaceLaws
pub mod LineLaws
pub mod MapLaws
pub mod Promises
pub mod ReadLaws
pub mod StepLaws
pub mod WriteLaws
