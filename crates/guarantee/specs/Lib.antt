-- The statement of the guarantee, and what stands beside it.
pub mod Demand3
pub mod Elements
pub mod Keeping
pub mod EmptyCycle
pub mod Independent
pub mod HandsBack
pub mod OtherSize
pub mod Totals
