-- Laws of words, shapes and fields.
pub mod FieldTests
pub mod Found
pub mod Reaching
pub mod Cleared
