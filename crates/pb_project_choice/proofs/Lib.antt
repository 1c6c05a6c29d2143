pub mod Firsts
pub mod Saying
pub mod Labels
pub mod Telling
pub mod LabelHalves
pub mod Plain
pub mod Hearing
pub mod Relaying
