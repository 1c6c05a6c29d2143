pub mod Ranks
pub mod Worked
pub mod Rounds
