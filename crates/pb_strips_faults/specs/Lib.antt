pub mod Sites
pub mod Spelled
pub mod Faults
pub mod Found
pub mod Tabled
pub mod Parts
