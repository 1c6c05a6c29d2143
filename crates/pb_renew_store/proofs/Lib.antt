pub mod Bytes
pub mod Files
pub mod Kept
pub mod Names
pub mod Retained
