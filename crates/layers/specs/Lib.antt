pub mod Entries
pub mod Places
pub mod Laid
pub mod Queue
pub mod Table
pub mod Part
