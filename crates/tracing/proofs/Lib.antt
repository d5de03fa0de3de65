-- Laws of pushes.
pub mod Pushed
pub mod Succeeds
pub mod Roots
