-- Laws that the proofs of the functions cite; examples; uniqueness.
pub mod Classes
pub mod NoName
pub mod Listed
pub mod Naming
pub mod Examples
pub mod Unique
