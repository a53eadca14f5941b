pub mod Printed
pub mod Bursts
pub mod Fields
pub mod Complete
pub mod Only
