pub mod Replies
pub mod Scripts
