pub mod Moves
pub mod Views
pub mod Ranges
pub mod Counting
pub mod Phases
