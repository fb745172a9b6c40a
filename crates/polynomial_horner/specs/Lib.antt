pub mod Horner
pub mod Inside
