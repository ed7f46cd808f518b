-- Laws and theorems about the AT91 controller's record.
pub mod LastPromises
pub mod PassLaws
pub mod Promises
pub mod RankLaws
pub mod RuleLaws
pub mod SoundLaws
pub mod TableLaws
