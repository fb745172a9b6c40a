pub mod Same
pub mod Bytes
