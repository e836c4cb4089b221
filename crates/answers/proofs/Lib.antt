-- What the proofs of this crate share: the laws of texts, of numbers in letters and of the lines; that no second result fits.
pub mod Laws
pub mod Whole
pub mod Unique
