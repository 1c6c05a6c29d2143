pub mod Orders
pub mod Taken
pub mod Faults
pub mod Carries
