-- The same heap, a mutator's call over it in idle, and that no such call changes the phase.
pub mod SameHeap
