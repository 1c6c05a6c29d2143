pub mod Erasing
pub mod Framing
pub mod Spelling
