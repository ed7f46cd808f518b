-- A step in a room is the step of the record that was laid into it; the laws of what a read looks at, and the proof of what is promised of it.
pub mod FaceLaws
pub mod LookLaws
pub mod Promises
