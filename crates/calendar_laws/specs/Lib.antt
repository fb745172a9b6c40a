pub mod Dates
pub mod Seasons
pub mod DayTypes
pub mod Positions
pub mod Periods
