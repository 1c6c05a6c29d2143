pub mod Apart
pub mod Found
pub mod Marked
pub mod Parted
pub mod Stated
pub mod Written
pub mod Whole
