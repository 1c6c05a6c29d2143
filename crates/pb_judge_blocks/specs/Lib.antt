pub mod Flows
pub mod Places
pub mod Steps
