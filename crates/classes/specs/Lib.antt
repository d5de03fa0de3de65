-- Size classes, a record's shape, and the shape of a segment of each class.
pub mod Class
pub mod Record
pub mod Shape
