-- The rows and the shapes hold.
pub mod Hold
pub mod Shapes
