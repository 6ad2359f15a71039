pub mod Answered
pub mod Keeps
pub mod Restored
pub mod Rehearsed
