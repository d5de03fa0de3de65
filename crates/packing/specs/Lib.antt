-- The answers as the exported functions give them.
pub mod Packed
