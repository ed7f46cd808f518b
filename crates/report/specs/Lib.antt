-- The text of the year's report, lines of names, and what is promised of them.
pub mod Lines
pub mod Printed
pub mod Promises
pub mod Put
