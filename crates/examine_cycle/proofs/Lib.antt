-- The laws of what is judged.
pub mod Judging
