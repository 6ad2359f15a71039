pub mod Differences
pub mod Spelling
