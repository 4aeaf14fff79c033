pub mod Found
pub mod Tallies
