-- Calls over roots, fields and sides.
pub mod Roots
pub mod Calls
pub mod Sides
pub mod Coming
pub mod Puts
