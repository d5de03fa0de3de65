-- The trace stack as the examination goes through it.
pub mod Traced
