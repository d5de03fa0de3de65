-- Pushing on the trace stack, over memory of any content.
pub mod Pushing
pub mod Roots
