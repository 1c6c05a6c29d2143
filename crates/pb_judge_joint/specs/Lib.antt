pub mod Joined
pub mod Setting
