-- Mark bits, over memory of any content.
pub mod Bits
