-- The laws of kinds and configurations, and the proof of what is promised.
pub mod ConfigurationLaws
pub mod KindLaws
pub mod Promises
