pub mod WriteCheck
pub mod Passed
