pub mod Passing
pub mod Used
pub mod Setting
pub mod View
pub mod Doing
