pub mod Laws
pub mod Ruling
