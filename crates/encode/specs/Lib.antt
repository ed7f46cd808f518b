-- A trace that is typed as text: its lines, its bytes, what is said where it is refused, and what is promised of that.
pub mod Bytes
pub mod Encode
pub mod Lines
pub mod Passes
pub mod Promises
pub mod Statements
pub mod Words
