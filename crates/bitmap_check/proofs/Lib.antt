-- What the tests of the check show.
pub mod Examine
