-- Laws of the definitions, and the proof that the promises are kept.
pub mod AnswerLaws
pub mod ModelLaws
pub mod OutputLaws
pub mod Promises
pub mod SideLaws
pub mod SidesPromises
pub mod SidesTableLaws
pub mod SoundLaws
pub mod StartLaws
pub mod TableLaws
