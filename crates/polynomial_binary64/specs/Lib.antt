pub mod Binary64
pub mod Inside
pub mod Whole
