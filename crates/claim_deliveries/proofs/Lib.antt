pub mod Sums
pub mod Periods
pub mod Settled
pub mod WorkedPeriods
