pub mod Exact
pub mod Idle
pub mod Listing
pub mod Modes
pub mod Nexts
pub mod Runs
pub mod Standings
