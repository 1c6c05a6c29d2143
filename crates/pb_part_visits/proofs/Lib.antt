pub mod Meets
pub mod Narrowed
pub mod VisitLists
pub mod EndAreas
pub mod EndFits
pub mod Fresh
