pub mod Faults
pub mod Made
pub mod Places
pub mod Plans
pub mod Reasons
pub mod Renewing
