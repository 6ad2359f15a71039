pub mod Ciphers
pub mod Keys
pub mod Vectors
pub mod WordKeys
