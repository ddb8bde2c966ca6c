-- Laws that the proofs of the functions cite, and those that callers need; examples; uniqueness.
pub mod Numbers
pub mod Sign
pub mod Signed
pub mod NoNumeral
pub mod Walking
pub mod Examples
pub mod Unique
