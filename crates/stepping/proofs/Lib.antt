-- Laws of a step in a handshake, and of how a step keeps its promise.
pub mod Answering
pub mod Counting
pub mod Handshaking
pub mod Promising
