mod Tables
pub mod Words
pub mod Runs
