-- The laws of the drawing, and the proof of what is promised of it.
pub mod BarLaws
pub mod ColumnLaws
pub mod FrameLaws
pub mod FrameSizeLaws
pub mod FreeLaws
pub mod LabelLaws
pub mod Promises
pub mod ShapeSizeLaws
pub mod SizeLaws
