-- The invariants of the abstract machine, and the collector argument.
pub mod Graph
pub mod Updates
pub mod Refusals
pub mod Invariant
pub mod StoreKeeps
pub mod MakeKeeps
pub mod CycleKeeps
pub mod Simulation
pub mod Completeness
pub mod Agree
pub mod AgreeKeeps
pub mod CallKeeps
pub mod CollectorKeeps
pub mod Bridge
pub mod Condemning
