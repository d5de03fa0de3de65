-- Upper levels rebuilt, and a level 0 made ready for them.
pub mod Rebuild
pub mod Completed
