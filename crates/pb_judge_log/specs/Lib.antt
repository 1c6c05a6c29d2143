pub mod Entries
pub mod Kept
pub mod Outcomes
pub mod Reading
