pub mod Guesses
pub mod Parts
pub mod Spelled
