-- The search of a finite graph: its state and invariants over any nodes and edges, and the search itself as a function with its law.
pub mod Walk
pub mod Search
