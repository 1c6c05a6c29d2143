pub mod Tables
mod Ranges
mod Plains
mod Smalls
mod BranchSteps
mod Adding
