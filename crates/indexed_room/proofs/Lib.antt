-- Laws of a CIC with prioritised indices in a room: the frame, bits of bytes, the search, and the words of a channel.
pub mod AskLaws
pub mod ByteLaws
pub mod FirstLaws
pub mod FrameLaws
pub mod HoldLaws
pub mod Promises
pub mod ReplyLaws
pub mod StepLaws
pub mod TransferLaws
pub mod WordLaws
