-- What the bracket program says to a line, and what its parts owe.
pub mod Said
pub mod Ran
