-- Numbers for C.
pub mod Numbers
