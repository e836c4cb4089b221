-- What the proofs of this crate share: a run takes no more samples than it is given.
pub mod Taken
