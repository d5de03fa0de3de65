-- Laws of the layout.
pub mod Cut
pub mod Spliced
pub mod Regions
pub mod Sizes
pub mod TwoSizes
pub mod Filled
