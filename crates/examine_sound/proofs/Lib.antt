-- The laws of the phases.
pub mod Phases
