-- The opening and the start of a cycle.
pub mod OpenStacks
pub mod Opened
pub mod Condemned
pub mod Acknowledgements
pub mod Beginning
pub mod Started
