-- Laws of deeds, of what is said of them, exactly, and of texts.
pub mod DeedLaws
pub mod EntryLaws
pub mod Promises
pub mod SaidLaws
pub mod TextLaws
pub mod ToldLaws
