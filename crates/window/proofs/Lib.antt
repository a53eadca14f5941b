pub mod Limits
pub mod Values
pub mod Frames
pub mod Places
pub mod Geometry
pub mod Rows
pub mod Spans
