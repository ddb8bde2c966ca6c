-- What crosses to C.
pub mod Abi
pub mod Block
pub mod Sheets
