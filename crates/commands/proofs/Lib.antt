pub mod Chains
pub mod Entries
pub mod Firing
pub mod Numbers
pub mod Steps
pub mod Tests
pub mod Undoing
