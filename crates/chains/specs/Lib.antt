pub mod Chains
pub mod Claims
pub mod Witnesses
