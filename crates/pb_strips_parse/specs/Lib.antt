pub mod Blocks
pub mod Parsed
