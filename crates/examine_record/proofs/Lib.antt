-- The laws of the test.
pub mod Testing
pub mod Fitting
