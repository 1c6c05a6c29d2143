pub mod Rulings
pub mod Runs
