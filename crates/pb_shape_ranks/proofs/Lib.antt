pub mod Families
pub mod Theorem
pub mod Rows
pub mod Relayed
pub mod RelayedMade
