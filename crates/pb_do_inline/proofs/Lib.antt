pub mod Arms
pub mod Calling
pub mod Leaves
pub mod Stacks
pub mod Standing
