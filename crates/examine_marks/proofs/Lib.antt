-- The laws of the bits among the marks.
pub mod Judging
