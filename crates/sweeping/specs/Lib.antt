-- The sweep of a segment.
pub mod Sweeping
