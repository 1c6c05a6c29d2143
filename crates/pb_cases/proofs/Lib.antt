pub mod Best
pub mod Built
pub mod Ends
pub mod Live
pub mod Parts
pub mod Sorted
pub mod Covering
pub mod Stretch
