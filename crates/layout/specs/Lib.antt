-- The lent memory: its regions, their lengths, and the memory as one value.
pub mod Parts
pub mod Region
pub mod Geometry
pub mod TwoSizes
pub mod Mem
pub mod Numbers
