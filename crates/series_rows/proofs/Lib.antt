pub mod Rows
pub mod Joining
