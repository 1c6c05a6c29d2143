pub mod Lines
pub mod Building
pub mod Joined
pub mod Switches
