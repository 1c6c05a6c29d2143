pub mod Ascents
pub mod Pairs
