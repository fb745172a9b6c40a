pub mod LineByLine
pub mod Listing
