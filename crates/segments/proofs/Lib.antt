-- Laws of segment records.
pub mod Records
