pub mod Said
pub mod Renamed
mod Spoken
pub mod Fits
pub mod Built
mod Inlined
mod Counted
mod Passes
mod Bytes
mod Costs
pub mod Readable
