-- Whole cycles, call by call.
pub mod Cycles
pub mod EmptyCycles
pub mod PartCycles
