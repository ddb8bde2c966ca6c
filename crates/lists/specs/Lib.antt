-- What the list readers' contracts say.
pub mod Laid
pub mod Push
