pub mod Sums
pub mod Members
pub mod Strides
pub mod Stores
pub mod Parts
