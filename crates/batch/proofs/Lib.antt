pub mod Passes
pub mod Payloads
pub mod Plans
