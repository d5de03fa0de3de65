-- The laws behind the proofs: of lines one after the other, of records as the sheet tests them, and how long a sheet is.
pub mod Lines
pub mod Printing
pub mod Records
pub mod Lengths
