pub mod Alike
pub mod Ascending
pub mod Counting
pub mod Firsts
