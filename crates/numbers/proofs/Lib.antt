pub mod Numbers
pub mod Records
pub mod Back
pub mod Unique
