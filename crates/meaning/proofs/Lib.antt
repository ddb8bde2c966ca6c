pub mod Blanks
pub mod High
pub mod Slots
pub mod Whens
pub mod Everywhere
pub mod Thin
pub mod Normality
pub mod Unique
pub mod Open
pub mod Answers
pub mod WrittenNames
pub mod Rows
mod Slips
