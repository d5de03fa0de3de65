-- Mutators that come and go, over memory of any content.
pub mod Coming
pub mod Going
