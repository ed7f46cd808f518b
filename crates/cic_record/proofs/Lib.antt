-- Laws of sound records, and the proof of what is promised of them.
pub mod PartsLaws
pub mod Promises
pub mod RuleLaws
pub mod SoundLaws
