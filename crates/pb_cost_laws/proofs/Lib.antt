pub mod Counting
pub mod Bounds
pub mod Reached
pub mod Straight
pub mod Trees
