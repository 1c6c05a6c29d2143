pub mod Copies
pub mod Indents
pub mod Layouts
pub mod Lengths
pub mod Texts
pub mod Plains
pub mod Steps
mod MachineRows
mod WorldRows
pub mod Moves
