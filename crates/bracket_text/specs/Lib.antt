-- What the contracts of this crate cite: the texts of templates, templates in fixed byte strings, reading by a template from left
-- to right, and one step of writing. Text is the part to compare with document 01.
pub mod Text
pub mod Fixed
pub mod Scan
pub mod Pen
