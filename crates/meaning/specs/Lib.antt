-- The definitions that people must believe, in the order of document 01.
pub mod Refusals
pub mod Normal
pub mod Parts
pub mod Found
pub mod Tile
pub mod Views
pub mod Ordinary
pub mod Decimal
pub mod Strict
pub mod Meant
pub mod Written
