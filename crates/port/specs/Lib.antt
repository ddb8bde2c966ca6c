-- What the contracts of the port's parts say; no public contract cites these.
pub mod Seen
pub mod Keys
pub mod Carried
pub mod Forms
pub mod Passes
