-- Uniqueness.
pub mod Unique
