-- Laws of what the opening writes.
pub mod Stacks
