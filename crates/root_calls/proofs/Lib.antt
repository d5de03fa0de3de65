-- Laws of references.
pub mod References
