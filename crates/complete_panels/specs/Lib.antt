pub mod Settings
pub mod Plays
