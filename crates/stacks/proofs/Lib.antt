-- Laws of the stacks of segments.
pub mod Stacking
pub mod Ordered
