-- A step in a handshake, over memory of any content.
pub mod Handshaking
