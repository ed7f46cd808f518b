-- Laws and theorems about typed tables.
pub mod BareLaws
pub mod FillLaws
pub mod ForeLaws
pub mod LayoutLaws
pub mod LimitLaws
pub mod NameLaws
pub mod NamedLaws
pub mod NumberLaws
pub mod PlainLaws
pub mod Promises
pub mod QuoteLaws
pub mod ReadLaws
pub mod RefusalLaws
pub mod SeekLaws
pub mod SlipLaws
pub mod SlipsPromises
pub mod WrittenLaws
