pub mod Texts
pub mod Schedules
pub mod Draws
