-- What the parts of the bracket program's loop owe.
pub mod Printed
pub mod Bracket
pub mod Transcript
