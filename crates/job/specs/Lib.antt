pub mod Operations
pub mod Plans
pub mod Grounds
pub mod Parsed
pub mod Works
pub mod States
pub mod Bounds
pub mod Table
