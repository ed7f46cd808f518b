-- Theorems about the AT91 controller's definitions.
pub mod CallLaws
pub mod EffectLaws
pub mod HandlerLaws
pub mod IdleLaws
pub mod MarkLaws
pub mod Promises
pub mod SeenLaws
pub mod SoundLaws
pub mod StepKindLaws
