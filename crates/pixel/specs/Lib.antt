pub mod Rasters
pub mod Blends
pub mod Choices
pub mod Each
