pub mod Tame
pub mod Ahead
pub mod Reading
pub mod GoingOn
pub mod Parts
pub mod Counts
