-- The law of the phases' numbers.
pub mod Numbers
