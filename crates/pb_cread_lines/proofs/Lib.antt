pub mod Guards
pub mod Interning
pub mod Lines
pub mod Lookups
pub mod Numbers
pub mod Rounds
pub mod Rows
pub mod Whole
