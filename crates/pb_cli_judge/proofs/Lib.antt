mod Starts
pub mod Told
pub mod Complete
