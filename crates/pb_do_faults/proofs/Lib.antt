pub mod Calling
pub mod Counting
pub mod Firsts
pub mod Known
pub mod Searches
