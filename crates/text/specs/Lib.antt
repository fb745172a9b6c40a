pub mod Text
pub mod Inside
