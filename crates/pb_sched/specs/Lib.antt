pub mod Draws
pub mod Formats
pub mod Logged
pub mod Outcomes
pub mod Parts
