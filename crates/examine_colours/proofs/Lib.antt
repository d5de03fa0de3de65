-- The laws of the scratch's fields, and what the bits mean.
pub mod Fields
pub mod Meaning
