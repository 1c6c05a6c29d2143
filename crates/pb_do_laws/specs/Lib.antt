pub mod Deeds
pub mod Ends
pub mod Laws
pub mod Machine
pub mod Made
