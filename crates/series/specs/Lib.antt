pub mod Series
pub mod Inside
