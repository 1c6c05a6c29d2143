pub mod Marks
pub mod Reading
pub mod Fronts
pub mod Laws
pub mod Views
pub mod Labels
pub mod Fitting
