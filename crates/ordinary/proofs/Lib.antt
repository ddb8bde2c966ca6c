-- The law that `parse` rests on, and its one answer.
pub mod Asking
pub mod Unique
