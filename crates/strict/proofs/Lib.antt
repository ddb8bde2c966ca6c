-- The laws that the proofs of the functions cite.
pub mod Numbers
pub mod Chain
pub mod Tree
pub mod Picking
pub mod Rows
pub mod Listing
pub mod Insides
pub mod Together
pub mod Endings
pub mod Bridge
pub mod BridgeViews
pub mod BridgeWhole
pub mod Judging
pub mod Unique
