pub mod Limits
pub mod Places
pub mod Values
pub mod Apart
pub mod Geometry
