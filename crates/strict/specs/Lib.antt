-- What the contracts of the strict reader's parts say: values with places of the text, words of tables, lists.
pub mod Cursor
pub mod Words
pub mod Rows
pub mod Laws
pub mod Lists
pub mod Inner
pub mod Heads
pub mod Views
pub mod Whole
pub mod Plain
