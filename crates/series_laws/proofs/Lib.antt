pub mod Series
pub mod Adjoining
