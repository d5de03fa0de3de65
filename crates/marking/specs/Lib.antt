-- The visit of a record.
pub mod Visiting
