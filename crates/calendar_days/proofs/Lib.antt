pub mod ClockChanges
pub mod MonthDays
