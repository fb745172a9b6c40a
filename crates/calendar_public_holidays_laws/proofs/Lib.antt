pub mod Members
pub mod Length
pub mod Entries
pub mod Eves
pub mod Question
pub mod List
