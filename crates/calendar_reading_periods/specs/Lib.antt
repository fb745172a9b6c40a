pub mod ReadingPeriods
pub mod Inside
