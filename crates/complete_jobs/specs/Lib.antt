pub mod Ways
pub mod Undo
