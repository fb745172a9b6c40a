pub mod Binary64
pub mod Range
pub mod Pattern
pub mod Casts
pub mod Whole
