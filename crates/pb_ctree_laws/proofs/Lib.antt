pub mod Bodies
pub mod Choices
pub mod Names
pub mod Parts
pub mod Roles
pub mod Statements
pub mod Tables
pub mod Tests
pub mod Texts
mod Worked
