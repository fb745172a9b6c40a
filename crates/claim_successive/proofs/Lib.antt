pub mod Answers
pub mod Chain
pub mod Whole
pub mod Runs
pub mod Pieces
pub mod SuccessiveCalls
