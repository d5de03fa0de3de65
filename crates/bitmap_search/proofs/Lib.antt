-- Laws of the plain scan, of bit pointers, of one level's steps, of the search, and of what the words at a place tell.
pub mod Scan
pub mod Pointers
pub mod Steps
pub mod Forward
pub mod Moves
pub mod Twice
pub mod AtPlace
pub mod Aims
