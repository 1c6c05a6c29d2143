pub mod Can
pub mod Events
pub mod Flight
pub mod Sound
pub mod Starts
pub mod States
pub mod Worlds
