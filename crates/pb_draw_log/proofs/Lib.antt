pub mod Ended
pub mod Named
pub mod Shorter
pub mod Taken
pub mod Worded
