-- Laws of acknowledgements and of the calls of a handshake.
pub mod Acknowledging
pub mod Entering
