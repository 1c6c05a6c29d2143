pub mod CallSites
pub mod Cycles
pub mod Faults
pub mod Found
pub mod Search
pub mod Strangers
