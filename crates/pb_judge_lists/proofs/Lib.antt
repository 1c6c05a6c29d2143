pub mod Linking
pub mod Passes
