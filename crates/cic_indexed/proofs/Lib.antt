-- Laws of the registers and of steps, and the proof of what is promised.
pub mod CicLaws
pub mod EndLaws
pub mod FreedLaws
pub mod IndexLaws
pub mod KeptLaws
pub mod ModeLaws
pub mod NumberLaws
pub mod PlaceLaws
pub mod Promises
pub mod SoundLaws
pub mod StayLaws
pub mod StepLaws
pub mod WriteLaws
