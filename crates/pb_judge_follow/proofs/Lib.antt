pub mod Circling
pub mod Following
pub mod Passing
pub mod Rules
