pub mod Changes
pub mod Deeds
pub mod Kinds
pub mod MemStore
pub mod Recorded
