pub mod Input
pub mod Inside
