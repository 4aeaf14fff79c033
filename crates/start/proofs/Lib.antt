pub mod Copies
pub mod Scripts
pub mod Labels
