pub mod Keys
pub mod Postings
pub mod Traces
