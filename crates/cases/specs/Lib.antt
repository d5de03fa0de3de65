-- The rows, and the shapes of all classes.
pub mod Rows
pub mod Shapes
