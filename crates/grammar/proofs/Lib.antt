-- The strict reader's pieces with their laws, up to the reader of strict forms; what its laws give: one meaning, one answer; and examples.
pub mod Number
pub mod Several
pub mod Elements
pub mod Body
pub mod Sights
pub mod Insides
pub mod Whole
pub mod Where
pub mod Unique
pub mod Answer
pub mod Printed
mod Examples
