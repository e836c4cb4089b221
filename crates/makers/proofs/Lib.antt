-- What is proved of the makers' requests: the laws of specs/Laws.antt; that no second result fits.
pub mod Laws
pub mod Unique
