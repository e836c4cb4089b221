-- What the proofs of this crate share: the table of groups; the laws of specs/Laws.antt; that no second result fits.
pub mod Classes
pub mod Groups
pub mod Numbers
pub mod Laws
pub mod Fleets
pub mod Unique
pub mod Cases
