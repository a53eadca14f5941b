pub mod Wide
pub mod Meanings
pub mod PlainValues
pub mod Colours
