-- The laws of a picture, and the proof of what is promised of it.
pub mod BarLaws
pub mod ColumnLaws
pub mod PictureLaws
pub mod Promises
pub mod ShownLaws
pub mod SizeLaws
pub mod StepsLaws
