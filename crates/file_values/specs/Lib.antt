pub mod Values
pub mod Inside
