pub mod Blocks
pub mod Bodied
pub mod Frames
pub mod Lengths
pub mod Texts
pub mod Trees
