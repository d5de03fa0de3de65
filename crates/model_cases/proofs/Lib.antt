-- The cases hold.
pub mod Whole
pub mod Refusals
pub mod Stacks
pub mod Long
pub mod Counted
