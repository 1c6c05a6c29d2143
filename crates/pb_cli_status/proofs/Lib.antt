pub mod Fronts
mod Joined
pub mod Outside
