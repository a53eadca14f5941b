pub mod Packed
pub mod Depths
pub mod Overlays
pub mod OverlayKinds
pub mod Laws
pub mod Levels
