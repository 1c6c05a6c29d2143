pub mod Flattened
pub mod Steps
