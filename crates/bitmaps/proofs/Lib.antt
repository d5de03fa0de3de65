-- A segment's parts of the slice, and the number of its blocks in use.
pub mod Lent
pub mod Used
pub mod Unset
pub mod Own
