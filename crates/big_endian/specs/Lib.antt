pub mod BigEndian
pub mod Inside
