pub mod Ascending
pub mod Ends
pub mod Single
