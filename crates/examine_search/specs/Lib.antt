-- The heap as a graph, the scratch as a search's state, and what a search finds.
pub mod Graph
pub mod Scratch
pub mod Found
