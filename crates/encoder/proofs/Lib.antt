pub mod Codec
pub mod Stores
pub mod Writes
pub mod Steps
