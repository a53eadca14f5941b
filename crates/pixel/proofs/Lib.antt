pub mod Minterms
pub mod Formulas
pub mod Rasters
pub mod Blends
pub mod Choices
pub mod Narrowing
pub mod Split
