pub mod WorkedYears
pub mod ListGiven
