pub mod Combining
pub mod Joining
pub mod Labels
