-- The laws of the steps of a machine, and the proof of what is promised.
pub mod Computing
pub mod MachineLaws
pub mod Promises
pub mod RecordPromises
pub mod ShownLaws
pub mod StepLaws
