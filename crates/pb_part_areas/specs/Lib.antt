pub mod Areas
pub mod Fits
pub mod Joins
pub mod Small
