pub mod Calls
pub mod Joined
pub mod Outcomes
pub mod Past
pub mod Lists
pub mod Results
pub mod Rounds
pub mod Seen
