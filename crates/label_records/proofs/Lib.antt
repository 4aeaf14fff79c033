pub mod Labels
pub mod Turns
