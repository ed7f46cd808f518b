-- Laws of an AINTC in a room: the search, what the outputs take, effects and replies.
pub mod CellLaws
pub mod EffectLaws
pub mod LayLaws
pub mod Promises
pub mod RecordLaws
pub mod ReplyLaws
pub mod RouteLaws
pub mod SearchLaws
pub mod SideLaws
