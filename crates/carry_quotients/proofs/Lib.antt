pub mod Growths
pub mod Figures
