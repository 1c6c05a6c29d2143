pub mod Cells
pub mod Flat
pub mod Laws
