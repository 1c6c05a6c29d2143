pub mod Places
pub mod Takers
pub mod Learning
pub mod Blocks
pub mod Wholes
