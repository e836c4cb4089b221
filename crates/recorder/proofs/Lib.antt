-- Laws of the recorder's definitions that the proofs of its functions cite.
pub mod Made
pub mod Single
pub mod Lent
pub mod Unique
pub mod Sound
pub mod Bounded
pub mod Cases
pub mod Ages
