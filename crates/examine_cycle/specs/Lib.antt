-- What the examination judges by the bits of two searches.
pub mod Judged
