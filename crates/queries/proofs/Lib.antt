pub mod Tallies
pub mod Passed
pub mod Boxes
pub mod Sweeps
pub mod Clipped
