-- A board of CoreInterrupts: its record, what is done to it, what it answers, and what is promised of it.
pub mod Model
pub mod Promises
pub mod Record
pub mod RecordPromises
pub mod Sound
pub mod Tables
