pub mod Found
pub mod Sayable
pub mod Sources
pub mod Tested
pub mod Heard
pub mod Relayed
