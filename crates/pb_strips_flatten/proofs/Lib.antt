pub mod Fitting
pub mod Unrolled
pub mod Walking
