pub mod Polynomial
pub mod Inside
