pub mod DayTable
pub mod DayQuarters
pub mod Inside
