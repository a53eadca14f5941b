pub mod Widths
pub mod Packing
pub mod Channels
pub mod Entries
pub mod Formats
pub mod Places
pub mod Unpacks
