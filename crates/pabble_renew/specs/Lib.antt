pub mod Asked
pub mod Causes
pub mod Endings
pub mod Leaves
pub mod Planned
pub mod Steps
pub mod Wanted
