pub mod Check
pub mod Asked
