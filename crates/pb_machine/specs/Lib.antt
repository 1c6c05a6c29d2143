pub mod Acts
pub mod Seats
pub mod Sizes
pub mod Steps
