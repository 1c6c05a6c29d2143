pub mod Again
pub mod Found
pub mod Guessed
pub mod RuleParts
pub mod Strips
