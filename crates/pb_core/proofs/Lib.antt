pub mod Built
pub mod Few
pub mod Faults
