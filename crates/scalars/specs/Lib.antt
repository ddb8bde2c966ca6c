-- What the contracts of scalars say: names, widths, classes.
pub mod Names
