pub mod Header
pub mod Inside
