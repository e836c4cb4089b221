-- What the proof of the check cites, and that no second verdict fits.
pub mod Verdicts
pub mod Unique
