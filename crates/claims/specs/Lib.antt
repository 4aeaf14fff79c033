pub mod Reasons
pub mod Undone
pub mod Extremes
pub mod TwoBooks
pub mod Claims
pub mod Witnesses
