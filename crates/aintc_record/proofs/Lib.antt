-- Laws and theorems about the AINTC's record.
pub mod Promises
pub mod RecordLaws
