pub mod Listing
pub mod Inside
