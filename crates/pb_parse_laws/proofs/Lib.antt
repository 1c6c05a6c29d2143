mod Seen
mod Does
mod Shape
mod Tokens
mod Forms
mod Statements
mod Bytes
pub mod Countable
mod Named
mod Kept
pub mod Sound
