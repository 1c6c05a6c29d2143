pub mod Finding
pub mod Lines
pub mod Printed
pub mod Spelled
pub mod Once
pub mod Steps
pub mod Strips
