-- The stacks of segments over memory of any content.
pub mod Stacking
