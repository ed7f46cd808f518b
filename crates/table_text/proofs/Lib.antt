-- Laws of the table as it is typed, and its promises.
pub mod NumberLaws
pub mod Promises
pub mod ReadLaws
pub mod SizeLaws
pub mod TextLaws
