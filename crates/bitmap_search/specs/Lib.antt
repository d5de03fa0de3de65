-- The plain scan, bit pointers and their moves, the search, and what make asks of it.
pub mod Scan
pub mod Pointer
pub mod Search
pub mod Twice
