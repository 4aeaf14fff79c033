pub mod Accepted
pub mod Loads
pub mod Calls
pub mod Labels
