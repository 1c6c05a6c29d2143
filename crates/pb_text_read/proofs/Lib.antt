pub mod Digits
pub mod Strips
