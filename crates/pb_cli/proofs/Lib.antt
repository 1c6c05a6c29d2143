pub mod Complete
pub mod Replies
