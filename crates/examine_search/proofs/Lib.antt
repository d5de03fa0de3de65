-- The laws of the search over the heap.
pub mod Covering
pub mod Steps
pub mod Rooting
pub mod Finding
