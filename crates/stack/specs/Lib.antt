-- Stack sizes: what is summed, how it is printed, tables that records and runs keep, and what is promised of them.
pub mod Bytes
pub mod Kept
pub mod KeptPromises
pub mod KeptWorked
pub mod Printed
pub mod Promises
pub mod Worked
