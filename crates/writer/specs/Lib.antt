pub mod Write
pub mod Claims
