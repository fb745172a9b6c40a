pub mod Holidays
pub mod Inside
