pub mod Lists
pub mod Cuts
