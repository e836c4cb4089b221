-- What is proved of this crate beside its functions: that no second result fits, and that the numbers lose nothing.
pub mod Unique
pub mod Laws
