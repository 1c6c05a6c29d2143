pub mod Plains
pub mod Places
pub mod Heights
pub mod Breadths
pub mod Fitting
pub mod Computing
pub mod Arms
