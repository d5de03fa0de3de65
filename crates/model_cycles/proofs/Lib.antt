-- The cycles hold.
pub mod Cycles
pub mod EmptyCycles
pub mod PartCycles
