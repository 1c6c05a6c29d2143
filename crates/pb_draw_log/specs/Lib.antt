pub mod Ends
pub mod Heads
pub mod Lines
pub mod Parts
pub mod Taking
