pub mod Groups
pub mod Growth
