-- Laws that the proofs of the functions cite, and those that callers need; examples; uniqueness.
pub mod Lists
pub mod Seeking
pub mod Passing
pub mod Trimming
pub mod Splitting
pub mod Rooms
pub mod Examples
pub mod Unique
