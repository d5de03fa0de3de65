-- The laws behind the proofs: of the loop over a piece, of a whole stream in any pieces, and examples.
pub mod Scanning
pub mod Streams
pub mod Examples
