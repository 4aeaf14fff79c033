pub mod Memory
pub mod Start
pub mod Tables
pub mod Marked
pub mod Shortcuts
pub mod Clauses
