pub mod Reaches
pub mod Samples
pub mod Pictures
pub mod Meanings
pub mod Shapes
pub mod RowPixels
pub mod Repeating
pub mod TakenBits
