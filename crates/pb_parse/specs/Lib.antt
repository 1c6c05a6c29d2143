pub mod Gives
pub mod Limits
pub mod Parsed
