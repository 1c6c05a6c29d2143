pub mod Defaults
pub mod Named
pub mod Rounds
pub mod Tables
pub mod Written
