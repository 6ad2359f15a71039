pub mod Answered
pub mod Batched
pub mod Fields
pub mod Opening
pub mod States
pub mod Streams
