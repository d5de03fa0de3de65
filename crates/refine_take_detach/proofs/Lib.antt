-- Segments taken by a make and given back by a detach, and when a make finds no room.
pub mod Standing
pub mod SegmentTaken
pub mod Taking
pub mod TakePart
pub mod TakeFree
pub mod Rooms
pub mod Detached
pub mod DetachRefines
