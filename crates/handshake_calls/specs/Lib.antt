-- An acknowledgement over memory of any content.
pub mod Acknowledging
