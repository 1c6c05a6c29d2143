pub mod Events
pub mod Kept
pub mod Logs
pub mod Turns
pub mod Wholes
