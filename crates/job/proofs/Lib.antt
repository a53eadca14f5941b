pub mod Starts
pub mod Bounds
pub mod Past
pub mod Table
pub mod ByTable
pub mod Under
