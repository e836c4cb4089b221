-- What the C functions answer: each answer of the crates below as one number; and what is proved of these numbers.
pub mod Host
pub mod Laws
