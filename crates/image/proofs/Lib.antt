-- What the proofs of this crate share: the entries as bytes, sections read and written, the answers test by test; the laws of specs/Laws.antt; that no second result fits.
pub mod Entries
pub mod Lengths
pub mod Sections
pub mod Answers
pub mod Laws
pub mod Found
pub mod Trips
pub mod Refusals
pub mod Unique
