-- Laws of the parts, one return at a time.
pub mod Tests
pub mod Records
pub mod Tables
pub mod From
