pub mod Answered
pub mod Merged
pub mod Said
