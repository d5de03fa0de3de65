-- What the phases ask.
pub mod Cycle
