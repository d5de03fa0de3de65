-- Laws of the visit of a record.
pub mod Pointers
pub mod Tracing
