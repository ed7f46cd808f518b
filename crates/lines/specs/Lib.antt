-- The text of a listing.
pub mod Behind
pub mod Listing
