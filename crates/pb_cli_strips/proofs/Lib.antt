mod Told
pub mod Complete
