pub mod Counting
pub mod Together
pub mod Texts
