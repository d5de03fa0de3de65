-- Laws of packed answers.
pub mod Halves
pub mod Unpacked
pub mod Lengths
pub mod UnpackedStep
pub mod UnpackedLooks
