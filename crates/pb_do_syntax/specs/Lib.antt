pub mod Calls
pub mod Inlining
pub mod Names
pub mod Plain
