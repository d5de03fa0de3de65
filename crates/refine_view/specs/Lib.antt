-- The memory as the abstract machine, and what a call keeps.
pub mod View
pub mod Refines
