pub mod Amounts
pub mod Steps
