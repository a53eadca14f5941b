pub mod Starting
pub mod Playing
pub mod Performing
pub mod Setting
