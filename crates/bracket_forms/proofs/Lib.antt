-- The laws behind the proofs: of the templates of the forms, of the reader and the writers, and examples.
-- Reader ends with what follows from the reader's contract.
pub mod Table
pub mod Reader
pub mod Writer
pub mod Examples
