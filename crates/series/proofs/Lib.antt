pub mod Series
pub mod OneDay
pub mod DaysWithKinds
pub mod DayByDay
pub mod Storing
