pub mod Lines
pub mod Cost
