pub mod Counted
pub mod Easter
pub mod Repentance
pub mod Inside
