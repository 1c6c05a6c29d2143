pub mod Blocks
pub mod Loops
pub mod Runs
pub mod Whole
