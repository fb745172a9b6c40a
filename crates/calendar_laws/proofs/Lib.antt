pub mod Dates
pub mod DayTypes
pub mod Positions
pub mod Order
pub mod Seasons
pub mod Periods
