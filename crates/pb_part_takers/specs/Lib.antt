pub mod Loops
pub mod Pieces
pub mod Ends
pub mod Sums
pub mod Bodies
pub mod Numbered
