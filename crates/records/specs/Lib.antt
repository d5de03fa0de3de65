-- What a word names, and the words of a record's fields.
pub mod FieldWords
