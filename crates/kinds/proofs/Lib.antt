pub mod Notes
pub mod Past
pub mod Sites
