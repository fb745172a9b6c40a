pub mod Integers
pub mod WholeFloats
pub mod LosesNothing
pub mod Comparisons
pub mod Usable
