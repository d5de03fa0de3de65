-- The model's own run.
pub mod Sizing
pub mod Collecting
pub mod Answering
pub mod Meeting
pub mod Elements
pub mod Own
