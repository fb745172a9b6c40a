pub mod AskedEntries
pub mod Complete
