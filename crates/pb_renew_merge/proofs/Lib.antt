mod Faults
pub mod Losses
pub mod Places
