pub mod Entered
pub mod Groups
pub mod Refusals
