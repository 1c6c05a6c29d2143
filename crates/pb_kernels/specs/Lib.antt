pub mod Files
pub mod Format
pub mod Marks
pub mod Merges
pub mod Names
pub mod Outcomes
