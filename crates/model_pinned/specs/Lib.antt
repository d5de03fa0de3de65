-- Cases that pin what the other evaluated cases leave open.
pub mod Handshakes
pub mod Parts
pub mod Sides
pub mod Words
pub mod Sizes
pub mod Large
pub mod Orders
pub mod Quiet
pub mod Bitmaps
pub mod Freed
pub mod Entering
pub mod Sheet
