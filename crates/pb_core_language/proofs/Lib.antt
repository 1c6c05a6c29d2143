mod Numbers
mod LeastSets
mod RunLaws
mod Rows
mod FileRows
pub mod Plains
pub mod Counts
