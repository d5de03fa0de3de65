-- Laws of the refusals of a mutator and of its roots, and of an entry written whole.
pub mod Inside
pub mod Entry
