-- Laws of packed words, of a level summed up, of a tree rebuilt, and of a level made ready.
pub mod Packed
pub mod Counted
pub mod Summed
pub mod Rebuilt
pub mod Completed
pub mod Copied
pub mod Gathered
pub mod Halves
pub mod Pressed
pub mod Unset
pub mod Local
pub mod Fresh
