pub mod Days
pub mod ClockChanges
