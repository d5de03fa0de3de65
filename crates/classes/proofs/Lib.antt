-- Laws of size classes and of a segment's shape.
pub mod Every
pub mod Smallest
pub mod Rows
pub mod ClassTable
pub mod Shapes
pub mod ShapeTable
pub mod Filling
