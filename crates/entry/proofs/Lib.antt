pub mod Claims
pub mod Explain
pub mod Reasons
pub mod Undone
pub mod Values
