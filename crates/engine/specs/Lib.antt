pub mod Faults
pub mod Model
pub mod Calls
pub mod Onward
pub mod Runs
pub mod Wiped
