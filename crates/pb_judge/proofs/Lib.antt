pub mod ReadRanks
pub mod Whole
