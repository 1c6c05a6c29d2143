pub mod Ends
pub mod Fits
pub mod Empty
pub mod Depth
pub mod Lonely
pub mod Breaches
