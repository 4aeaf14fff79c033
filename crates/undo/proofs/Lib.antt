pub mod Back
pub mod Keeping
pub mod Undo
