-- The laws of totals and of the sheet's figures, and the proof of what is promised of them.
pub mod MadeLaws
pub mod Promises
pub mod SheetLaws
pub mod SheetsPromises
pub mod TotalsLaws
pub mod WaitLaws
pub mod WaitsPromises
