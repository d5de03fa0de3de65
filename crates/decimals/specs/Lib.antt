-- Text as bytes, the decimal of a number, and a run of bytes placed in a list.
pub mod Ascii
pub mod Decimal
pub mod Placed
