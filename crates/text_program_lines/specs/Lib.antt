pub mod Lengths
pub mod Lines
