pub mod Fresh
pub mod Onward
pub mod Rule
pub mod Services
pub mod Tables
