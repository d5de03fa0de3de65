-- The instance, and what the theorems say of it.
pub mod CaseRun
pub mod Freed
pub mod GarbageFound
pub mod Instance
pub mod Along
pub mod Consequences
pub mod OverNothing
pub mod HalfEmpty
pub mod SoundOnly
pub mod RefusedStand
pub mod HandsBack
pub mod Totals
pub mod CycleBound
pub mod Large
