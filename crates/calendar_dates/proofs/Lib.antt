pub mod Dates
pub mod NextDay
pub mod Order
pub mod Later
pub mod Printed
