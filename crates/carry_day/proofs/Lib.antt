pub mod TwoRanges
