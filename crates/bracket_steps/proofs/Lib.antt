-- Laws of the answer to a line.
pub mod Running
pub mod Carrying
