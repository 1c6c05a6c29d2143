pub mod Files
pub mod Kernels
