-- Laws of mark bits.
pub mod Bits
pub mod Marking
