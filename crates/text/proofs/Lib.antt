pub mod Text
pub mod Puts
