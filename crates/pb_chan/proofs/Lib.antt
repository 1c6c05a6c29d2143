pub mod Positions
pub mod Seen
pub mod Written
pub mod Counts
pub mod Remaining
