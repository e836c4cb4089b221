-- What the proofs of this crate share: numbers that are held, the size of a number, the place of a value, blocks; the laws of specs/Laws.antt; that no second result fits.
pub mod Held
pub mod Sizes
pub mod Places
pub mod Framed
pub mod Splits
pub mod Written
pub mod ReadBack
pub mod Unique
