pub mod Endings
pub mod Plans
pub mod Plays
pub mod Records
