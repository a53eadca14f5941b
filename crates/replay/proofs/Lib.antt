pub mod Parts
pub mod Bursts
pub mod Runs
pub mod Joins
pub mod Making
