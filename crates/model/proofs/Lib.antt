-- Laws of the definitions.
pub mod Phases
pub mod Collecting
pub mod InUse
pub mod Numbers
pub mod Refusals
