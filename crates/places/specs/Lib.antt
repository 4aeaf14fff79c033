pub mod Places
pub mod Sets
pub mod Claims
pub mod Examples
