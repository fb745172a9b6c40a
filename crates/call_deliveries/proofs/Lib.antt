pub mod Filling
pub mod Signed
pub mod Answers
