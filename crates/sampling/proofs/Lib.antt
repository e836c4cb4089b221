-- Laws of the definitions that the proofs of the functions cite, and that no second result fits.
pub mod Books
pub mod Laps
pub mod Turns
pub mod Unique
