-- A make out of a held segment: the words that it leaves, and that they agree with the machine's.
pub mod Request
pub mod Result
pub mod Advanced
pub mod Written
pub mod Blackened
pub mod Standing
pub mod Apart
pub mod Unused
pub mod Newborn
pub mod Agreeing
pub mod Counting
pub mod Segments
pub mod Structured
pub mod Handed
