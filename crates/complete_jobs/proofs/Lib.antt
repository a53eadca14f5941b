pub mod Accepting
pub mod Stepping
pub mod Clearing
pub mod Undoing
