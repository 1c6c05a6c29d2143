pub mod Rules
pub mod Endpoint
pub mod Theorem
pub mod Once
pub mod Core
pub mod File
