pub mod Bytes
pub mod View
pub mod Cells
pub mod Boards
pub mod Spans
pub mod Rasters
