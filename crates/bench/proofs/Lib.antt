pub mod FirstLine
pub mod Obeying
