-- Pushes on the trace stack, and the calls and steps that push: check, leave, store, the handshakes and mark.
pub mod Over
pub mod Entered
pub mod Push
pub mod Folds
pub mod Self
pub mod Acknowledging
pub mod Pointers
pub mod Storing
pub mod Popping
pub mod TraceStep
pub mod Leaving
pub mod Handshakes
pub mod Calls
pub mod Steps
