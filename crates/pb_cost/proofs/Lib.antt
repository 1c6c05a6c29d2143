mod Rings
mod Ranges
mod Straightens
mod Convert
mod Conversions
mod Fits
mod PartsKept
mod Told
mod All
pub mod Unique
