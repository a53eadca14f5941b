pub mod Feeding
pub mod Clearing
pub mod Writing
pub mod Sending
