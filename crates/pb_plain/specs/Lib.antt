pub mod View
pub mod Loops
pub mod Finds
pub mod Alone
pub mod Small
