-- The step in sweep: one segment swept, or the cycle done.
pub mod Lowest
pub mod Outcome
pub mod Frames
pub mod Survivors
pub mod Structured
pub mod Agreeing
pub mod Passed
pub mod Settled
pub mod Ends
pub mod SweptStacks
pub mod SweepStep
pub mod MarksUsed
pub mod LastStep
pub mod Sweeping
