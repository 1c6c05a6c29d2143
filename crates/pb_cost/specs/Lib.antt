pub mod Parts
pub mod Pieces
pub mod Closed
pub mod Spans
pub mod Costs
pub mod Laws
