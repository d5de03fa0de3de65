-- How long a cycle can be.
pub mod StepsLeft
pub mod CycleBound
