pub mod Counted
pub mod Played
