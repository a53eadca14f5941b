pub mod Digits
pub mod Commands
pub mod Answers
pub mod Spelling
