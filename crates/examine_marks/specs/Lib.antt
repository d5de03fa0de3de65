-- What the examination asks of the bits among the marks.
pub mod Heads
