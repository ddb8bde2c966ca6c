-- For the private contracts: rooms that bytes are put into, and the written text built without its form.
pub mod Flat
