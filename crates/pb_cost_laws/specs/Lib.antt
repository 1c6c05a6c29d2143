pub mod Sent
pub mod Flats
pub mod Trees
pub mod Laws
