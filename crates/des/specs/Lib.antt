pub mod Bits
pub mod Cipher
pub mod Laws
pub mod Schedule
pub mod Tables
pub mod Vectors
