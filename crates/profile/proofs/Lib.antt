-- What the proofs of this crate share: numbers as bytes, the places of records, putting and reading them; that the buffer holds the last ones; that no second result fits.
pub mod Bytes
pub mod Places
pub mod Replies
pub mod Puts
pub mod Ring
pub mod Unique
