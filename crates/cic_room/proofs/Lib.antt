-- Laws of what a step in a room answers.
pub mod AssertLaws
pub mod BitsLaws
pub mod CopyLaws
pub mod FourLaws
pub mod KeptLaws
pub mod LayLaws
pub mod LeftLaws
pub mod LoadLaws
pub mod MapLaws
pub mod Promises
pub mod PutLaws
pub mod ReplyLaws
pub mod RoomLaws
pub mod ShownLaws
pub mod TableLaws
pub mod TurnLaws
pub mod WriteLaws
