pub mod Causes
pub mod Done
pub mod Flight
pub mod Made
pub mod Runs
pub mod Scheduled
pub mod Seen
pub mod Standing
