pub mod Elements
pub mod Plain
pub mod Grammar
pub mod Unexpected
pub mod Readers
pub mod Laws
pub mod Read
pub mod Rows
