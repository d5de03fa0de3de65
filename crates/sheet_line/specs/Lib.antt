-- What a line of the sheet asks of its numbers.
pub mod Fits
