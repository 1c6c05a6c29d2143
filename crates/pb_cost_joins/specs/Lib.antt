pub mod Counts
pub mod Clipped
pub mod Adding
pub mod Merging
