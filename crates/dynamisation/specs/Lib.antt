pub mod Dynamisation
