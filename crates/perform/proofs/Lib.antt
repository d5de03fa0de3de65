-- Laws of the dispatcher.
pub mod Performed
