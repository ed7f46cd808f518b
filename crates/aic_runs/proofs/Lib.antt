-- Theorems about runs of the AT91 controller.
pub mod CountedLaws
pub mod DueLaws
pub mod HeldLaws
pub mod HotLaws
pub mod ObserverLaws
pub mod OnLaws
pub mod Promises
pub mod RivalsPromises
pub mod RivalsWorked
pub mod RunLaws
pub mod SoundRuns
pub mod StepLaws
pub mod TurnLaws
pub mod TurnsObserverLaws
pub mod TurnsPromises
pub mod TurnsWorked
pub mod Worked
