pub mod Limits
pub mod Parsed
