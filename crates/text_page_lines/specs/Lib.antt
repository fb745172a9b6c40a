pub mod Inside
pub mod Lengths
pub mod PageLines
