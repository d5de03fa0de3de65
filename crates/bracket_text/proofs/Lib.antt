-- The laws behind the proofs: of lists, of the steps of reading, of numbers, of templates, of writing, and what a
-- decimal is.
pub mod Laws
pub mod Steps
pub mod Numbers
pub mod Templates
pub mod Fixed
pub mod Writing
pub mod Meaning
