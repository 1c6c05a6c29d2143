pub mod Least
pub mod Meanings
pub mod Steps
pub mod Whole
