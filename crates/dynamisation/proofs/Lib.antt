pub mod Days
pub mod Dynamisation
pub mod Households
pub mod Scaled
