pub mod Deliveries
pub mod Inside
