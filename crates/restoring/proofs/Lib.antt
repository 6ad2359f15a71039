pub mod Plans
pub mod Packets
pub mod Calls
pub mod Rehearsed
