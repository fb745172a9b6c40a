pub mod Integers
pub mod Kept
pub mod Terms
pub mod Days
pub mod Agree
