pub mod Carry
pub mod Energy
pub mod Totals
