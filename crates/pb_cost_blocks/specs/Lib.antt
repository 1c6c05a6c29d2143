pub mod Asked
pub mod Fit
pub mod Few
pub mod Answers
pub mod Running
pub mod Sums
pub mod Values
