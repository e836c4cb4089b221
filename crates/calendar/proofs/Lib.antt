-- The laws of the calendar, for this crate and those above it, and that no second result fits its contracts.
pub mod Months
pub mod Moments
pub mod Years
pub mod Unique
pub mod Cases
