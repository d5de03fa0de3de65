-- Laws of the sweep of a segment.
pub mod Scanned
pub mod Settling
pub mod Sweeping
