pub mod Units
pub mod Rows
pub mod Origins
pub mod Reaches
pub mod Shapes
pub mod Pictures
pub mod Meanings
pub mod Strips
