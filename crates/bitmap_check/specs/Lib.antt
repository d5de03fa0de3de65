-- One summary bit against its word.
pub mod Agree
