-- What a mutator must be to call, and its entry as a whole.
pub mod Inside
pub mod Entry
