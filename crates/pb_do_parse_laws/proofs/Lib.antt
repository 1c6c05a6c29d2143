pub mod Runs
pub mod Small
