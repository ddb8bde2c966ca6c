pub mod ByNumeral
pub mod Laying
pub mod Filling
pub mod Bounds
pub mod Fronting
pub mod Unique
