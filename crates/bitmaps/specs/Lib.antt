-- What the model says of a segment, by a class and a place that are given.
pub mod Given
