-- What the opening writes.
pub mod Stacking
