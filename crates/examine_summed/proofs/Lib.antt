-- Laws of the trees and of the stacks, one return at a time.
pub mod Shapes
pub mod Counted
pub mod Entering
pub mod Ordered
