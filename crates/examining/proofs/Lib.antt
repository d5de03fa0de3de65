-- The laws of the examination's promise.
pub mod Examined
