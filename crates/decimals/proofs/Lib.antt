-- The laws behind the proofs: of decimals, of a run of bytes placed in a list, and of digits written one after the other.
pub mod Decimal
pub mod Placed
pub mod Digits
