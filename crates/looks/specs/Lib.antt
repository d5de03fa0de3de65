-- What the look at the states asks of a record.
pub mod Plausible
