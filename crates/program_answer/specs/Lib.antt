pub mod Accepted
pub mod Answer
pub mod Inside
