pub mod Gathering
pub mod Calendar
pub mod Chosen
