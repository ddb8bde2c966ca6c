-- What the contracts of numerals say; and, of private helpers, parts.
pub mod Numeral
pub mod Parts
