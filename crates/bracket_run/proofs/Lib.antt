-- Laws of the bracket program's loop.
pub mod Printing
pub mod Replying
pub mod Transcript
