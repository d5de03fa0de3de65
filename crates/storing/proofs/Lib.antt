-- Laws of store.
pub mod Storage
