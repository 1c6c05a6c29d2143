pub mod Tokens
pub mod Grammar
pub mod Unexpected
pub mod Readers
pub mod Laws
