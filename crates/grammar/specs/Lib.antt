-- The strict reader at the level of texts, from its pieces up: what pieces are, how they are put together, and what they read.
pub mod Tests
pub mod Digits
pub mod Piece
pub mod Join
pub mod Until
pub mod Table
pub mod Number
pub mod Spelt
pub mod Several
pub mod Pair
pub mod Elements
pub mod Head
pub mod Where
