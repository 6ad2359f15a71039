pub mod Chaining
pub mod RoundTrip
