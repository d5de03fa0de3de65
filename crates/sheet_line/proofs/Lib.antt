-- The laws behind the proofs: of columns and lines, and of writers one after the other.
pub mod Columns
pub mod Writers
