pub mod Days
pub mod YearHolidays
