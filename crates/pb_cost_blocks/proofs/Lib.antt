mod Rows
pub mod Products
pub mod Counts
pub mod Growing
pub mod Shorter
pub mod Together
pub mod Runs
pub mod Steps
mod Branches
pub mod Foreachs
