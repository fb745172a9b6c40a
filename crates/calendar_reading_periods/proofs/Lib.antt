pub mod ReadingPeriods
