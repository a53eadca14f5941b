pub mod Yields
pub mod Chosen
pub mod Meanings
pub mod Levels
pub mod Values
pub mod Colours
