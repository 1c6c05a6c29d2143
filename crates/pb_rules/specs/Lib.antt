pub mod Verdict
pub mod Lines
pub mod Traps
pub mod Sites
pub mod CutLists
