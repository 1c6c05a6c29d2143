pub mod Clashes
pub mod Close
pub mod Repeats
