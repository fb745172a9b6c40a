pub mod WriteCheck
pub mod Inside
