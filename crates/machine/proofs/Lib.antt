pub mod Events
pub mod Nodes
pub mod Runs
pub mod Scripts
pub mod Stores
pub mod Traces
