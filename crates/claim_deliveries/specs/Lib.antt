pub mod Settled
pub mod WorkedPeriods
