-- What the proofs of this crate share: the laws of words, of numbers and of HEX; that no second result fits.
pub mod Splits
pub mod Digits
pub mod Pairs
pub mod Unique
