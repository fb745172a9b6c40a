pub mod DayTable
pub mod DayQuarters
