-- What the sheet asks of a record and makes of it, and how long its lines are.
pub mod Counted
pub mod Long
