pub mod Runs
pub mod Roads
pub mod Trees
pub mod Receives
