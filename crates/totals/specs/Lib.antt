-- Totals over traces, the figures of the tuning sheet, and what is promised of them.
pub mod Promises
pub mod Sheet
pub mod SheetsPromises
pub mod Totals
pub mod Waits
pub mod WaitsPromises
pub mod Worked
