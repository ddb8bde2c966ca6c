pub mod Collecting
pub mod Parts
