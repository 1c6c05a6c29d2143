pub mod Emitted
pub mod Numbers
pub mod Rooms
pub mod Rounds
mod Worked
