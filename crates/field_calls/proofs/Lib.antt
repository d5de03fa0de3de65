-- Laws of calls on fields.
pub mod Answering
