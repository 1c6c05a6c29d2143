pub mod Order
pub mod Segment
pub mod Along
pub mod Fits
pub mod Peers
pub mod Passing
pub mod Each
pub mod Pieces
pub mod Ends
mod Worked
