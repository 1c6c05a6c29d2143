pub mod Becoming
pub mod Carrying
pub mod Ending
pub mod Flattening
pub mod Matching
mod Rows
pub mod Staying
pub mod Unfolding
