pub mod Seated
pub mod GoesOn
pub mod Meets
pub mod OutcomeSets
pub mod Stops
pub mod Laws
