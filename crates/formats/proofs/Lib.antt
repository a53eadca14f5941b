pub mod TableRule
pub mod Shown
