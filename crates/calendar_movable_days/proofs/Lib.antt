pub mod Years
pub mod Easter
pub mod MarchDays
pub mod Repentance
