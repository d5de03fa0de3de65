-- Laws of a start, one segment and one refusal at a time.
pub mod Beginning
pub mod Refusing
