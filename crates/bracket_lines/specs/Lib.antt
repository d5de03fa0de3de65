-- What the contracts of this crate cite. Lines is the lines of a stream, to compare with document 01; Split is what the
-- functions do.
pub mod Lines
pub mod Split
