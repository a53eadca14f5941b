pub mod Declining
pub mod OwnNumbers
pub mod Scans
pub mod Goings
