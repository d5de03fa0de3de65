-- Laws of the two looks, one return at a time.
pub mod Looking
