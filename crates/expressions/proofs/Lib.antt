pub mod Bounds
pub mod Entries
pub mod Parts
pub mod Signed
pub mod Steps
