-- Inputs, the replies to a list of them, and the cases.
pub mod Replies
pub mod Whole
pub mod Refusals
pub mod Stacks
pub mod Long
pub mod Counted
