pub mod Bytes
pub mod Chain
pub mod Laws
pub mod Profiles
pub mod Restores
pub mod Turns
pub mod Xors
