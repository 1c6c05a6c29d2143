pub mod LawfulGrammar
pub mod Spread
pub mod ExactParts
pub mod ExactGrammar
pub mod Deeper
pub mod FuelGrammar
pub mod Final
