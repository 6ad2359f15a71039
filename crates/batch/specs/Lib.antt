pub mod Faults
pub mod Packets
pub mod Plan
pub mod Batches
pub mod Prepared
