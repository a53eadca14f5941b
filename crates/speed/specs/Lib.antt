pub mod Settings
pub mod Answers
pub mod Jobs
pub mod Panels
