pub mod Names
pub mod Jobs
pub mod Phases
pub mod Puts
pub mod Ends
pub mod Steps
