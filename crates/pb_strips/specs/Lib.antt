pub mod Flattened
pub mod Stopped
