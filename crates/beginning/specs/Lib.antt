-- Where the steps of a trace begin, and which numbers come before them.
pub mod Asked
pub mod Begin
pub mod Play
