pub mod Promises
pub mod Script
pub mod Store
pub mod Writes
