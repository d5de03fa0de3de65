-- What the examination's searches decide.
pub mod Coloured
