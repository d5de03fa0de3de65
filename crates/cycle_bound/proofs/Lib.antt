-- How long a cycle can be: the proof.
pub mod MarksKept
pub mod Unmarked
pub mod UnmarkedMake
pub mod UnmarkedCalls
pub mod MarkStep
pub mod Counting
pub mod Advancing
pub mod Waiting
pub mod Along
pub mod Bounding
pub mod TracedOnce
pub mod CycleBound
