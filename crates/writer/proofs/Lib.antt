-- Laws of digits and lists that the functions' proofs cite; then the theorems on written texts.
pub mod Digits
pub mod Entries
pub mod Short
pub mod Same
pub mod Opened
pub mod Answers
pub mod Ranges
pub mod Sound
pub mod Longest
pub mod Unique
pub mod Rows
pub mod Back
pub mod Ascii
pub mod Readings
