pub mod Appended
pub mod Blocks
pub mod Mains
pub mod Programs
