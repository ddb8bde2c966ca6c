pub mod Unique
pub mod Blocks
pub mod Fragments
