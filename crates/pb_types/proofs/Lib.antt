pub mod LawfulGrammar
pub mod ExactGrammar
pub mod Final
pub mod Texts
