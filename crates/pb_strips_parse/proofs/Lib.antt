pub mod Shapes
pub mod Together
pub mod Texts
