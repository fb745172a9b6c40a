pub mod Carry
pub mod Energy
