-- Laws of the definitions that the proofs of the functions cite, and that no second result fits.
pub mod Steps
pub mod Full
pub mod Lines
pub mod Made
pub mod Parts
pub mod Signed
pub mod Sums
pub mod Unique
