pub mod Firsts
pub mod Endless
pub mod Growth
pub mod Positions
pub mod LabelRows
pub mod RuleTwo
pub mod KernelRows
pub mod Mets
pub mod MetRows
pub mod RuleOne
mod Loops
mod EndingSteps
mod Growing
mod Plains
mod Noting
