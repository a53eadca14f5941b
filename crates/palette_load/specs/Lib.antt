pub mod Loads
pub mod States
