-- The instance, and what the theorems say of it.
pub mod Columns
pub mod Instance
pub mod Consequences
pub mod OverNothing
pub mod HalfEmpty
pub mod RefusedStand
pub mod HandsBack
pub mod Totals
pub mod CycleBound
pub mod Large
