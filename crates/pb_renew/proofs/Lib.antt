mod Contents
pub mod Reasons
pub mod Renewing
