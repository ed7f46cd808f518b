-- Laws about the levels of the AT91 controller's sources.
pub mod AgreeLaws
pub mod ChosenLaws
pub mod HighestLaws
pub mod LeastLaws
pub mod LevelLaws
pub mod Promises
pub mod RunLaws
pub mod StartLaws
pub mod StepLaws
pub mod TableLaws
