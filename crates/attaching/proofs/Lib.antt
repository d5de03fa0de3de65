-- Laws of the calls of coming and going.
pub mod Coming
pub mod Going
