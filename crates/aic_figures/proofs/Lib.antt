-- The laws of the books of figures and of waits, and the promises kept.
pub mod BookLaws
pub mod BoundLaws
pub mod ColumnLaws
pub mod EntryLaws
pub mod KeptLaws
pub mod MovedLaws
pub mod Promises
pub mod RoomLaws
pub mod RowLaws
pub mod WaitLaws
pub mod WaitsKeptLaws
