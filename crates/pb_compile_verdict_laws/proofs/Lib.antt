pub mod Crowds
pub mod Files
mod Rising
mod Lists
mod Marks
mod Numbers
mod Flat
mod Breaches
mod Firsts
mod Tokens
pub mod Verdicts
