pub mod Excess
pub mod Parts
pub mod Ends
pub mod Halts
pub mod RoleEnds
