pub mod WorkedYears
pub mod NotByNine
pub mod ListGiven
