-- The same heap along mutators' calls and the collector's.
pub mod Same
pub mod Entries
pub mod Making
pub mod Calls
pub mod Phase
pub mod Cycle
