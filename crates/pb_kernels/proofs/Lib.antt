pub mod Dialects
pub mod Distinct
pub mod Formats
pub mod Keys
pub mod Lines
pub mod Steps
pub mod Whole
