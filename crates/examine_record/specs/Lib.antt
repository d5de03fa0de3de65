-- What the test of a word answers.
pub mod Tests
