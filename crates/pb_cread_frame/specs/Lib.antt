pub mod Ahead
pub mod Frames
pub mod Laws
pub mod Reading
pub mod Rows
pub mod Steps
pub mod Views
