-- Laws and theorems about texts that are encoded.
pub mod ByteLaws
pub mod EncodeLaws
pub mod LineLaws
pub mod NumberLaws
pub mod OpeningLaws
pub mod PlaceLaws
pub mod Promises
pub mod StatementLaws
pub mod WordLaws
