mod Bools
mod Unbroken
mod Proper
mod Counted
mod Tokens
mod Forms
mod Measures
mod Statements
mod Header
mod Words
mod Small
pub mod Messages
mod Distinct
mod Labels
mod Kernels
mod Payloads
mod OneKind
mod Goes
mod Roles
pub mod Tabled
