pub mod Combining
pub mod Entering
pub mod Pushing
pub mod Gathering
pub mod Forgetting
