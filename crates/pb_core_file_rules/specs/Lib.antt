pub mod Lowering
pub mod Tables
pub mod Visiting
