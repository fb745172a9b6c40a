pub mod Period
