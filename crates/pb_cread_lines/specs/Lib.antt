pub mod Fits
pub mod Guess
pub mod Head
pub mod Items
pub mod Parts
pub mod Reading
