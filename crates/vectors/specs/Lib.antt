pub mod Hex
pub mod Keyring
pub mod Subjects
pub mod Vectors
