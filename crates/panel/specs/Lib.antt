pub mod Registers
pub mod State
pub mod Calls
pub mod Histories
