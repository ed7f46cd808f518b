-- The laws of what is moved in a room.
pub mod ShiftLaws
