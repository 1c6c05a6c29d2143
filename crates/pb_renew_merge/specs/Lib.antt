pub mod Defaults
pub mod Left
pub mod Lost
pub mod Payloads
pub mod Renewed
