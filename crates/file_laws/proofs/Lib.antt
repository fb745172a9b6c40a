pub mod Codes
pub mod RoundTrip
pub mod Calls
