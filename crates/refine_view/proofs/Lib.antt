-- The correspondence of memory and machine.
pub mod Contents
pub mod Seeing
pub mod Carried
pub mod Frames
pub mod Following
pub mod EntriesOnly
pub mod Sides
pub mod Phasing
pub mod Invariants
pub mod SelfSimulation
