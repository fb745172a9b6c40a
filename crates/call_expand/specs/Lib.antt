pub mod Expanding
