-- The laws of lines: what a turn lists, how lines end, how long they are.
pub mod BehindLaws
pub mod EndingLaws
pub mod LineLaws
pub mod SizeLaws
