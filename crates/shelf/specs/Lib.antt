pub mod Examined
pub mod Meaning
pub mod Onward
pub mod Paces
pub mod PacingRule
pub mod Refusals
pub mod Rows
pub mod Shelves
