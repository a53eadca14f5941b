pub mod Parts
pub mod Complete
pub mod Undo
pub mod Laws
