pub mod Blocks
pub mod Choices
pub mod Numbering
pub mod Rounds
pub mod Stepping
pub mod Statements
