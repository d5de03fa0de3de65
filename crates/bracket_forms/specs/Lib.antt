-- What the contracts of this crate cite. Forms and Replies are the grammar, to compare with document 01; Kinds is what the
-- functions go by.
pub mod Forms
pub mod Replies
pub mod Kinds
