pub mod Strips
pub mod Plain
pub mod Columns
pub mod Flattening
