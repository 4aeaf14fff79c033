pub mod Indexes
pub mod Loads
pub mod Writes
pub mod Fields
pub mod Bounds
pub mod Runs
