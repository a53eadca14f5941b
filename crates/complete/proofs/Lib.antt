pub mod Completing
pub mod Passing
pub mod Commuting
pub mod Framing
pub mod Undoing
