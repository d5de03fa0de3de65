-- The laws of the search, and the search run on small graphs.
pub mod Walking
pub mod Searching
pub mod Case
