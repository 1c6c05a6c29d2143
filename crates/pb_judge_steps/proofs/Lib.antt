pub mod Meetings
pub mod Saying
