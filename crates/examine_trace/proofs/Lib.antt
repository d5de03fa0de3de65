-- The laws of the trace stack's examination.
pub mod Entering
