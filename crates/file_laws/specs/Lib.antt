pub mod RoundTrip
pub mod Calls
