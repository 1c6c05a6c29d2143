pub mod Numbers
pub mod Reader
pub mod Request
pub mod Said
pub mod Shown
