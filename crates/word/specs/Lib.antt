pub mod Bytes
pub mod Identifiers
pub mod Parities
pub mod Words
