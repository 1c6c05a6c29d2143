pub mod Commands
pub mod Endings
pub mod Replies
pub mod Sources
