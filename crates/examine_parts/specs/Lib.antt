-- The part of consistency that is decided without scratch, and its pieces.
pub mod Parts
