-- What a store does to a word.
pub mod Stored
