-- The rules of the cycle, the calls and their refusals, the unbounded heap, and the abstract machine that the collector argument is
-- made on. A reader must believe all but the machine, which only the proofs use.
pub mod Reach
pub mod Update
pub mod Phases
pub mod Calls
pub mod Unbounded
pub mod TraceStack
pub mod Machine
pub mod MachineCalls
pub mod Invariant
