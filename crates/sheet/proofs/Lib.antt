-- Laws of rows and of their places, of sums, and of how large they can be; then the theorems, and one answer for each call.
pub mod Cutting
pub mod Bounds
pub mod Summing
pub mod Rows
pub mod Unique
pub mod Calls
mod Examples
