-- The calendar in document 01's words: dates, moments of the clock, the cases of its table, and what an upper layer may know of them.
pub mod Dates
pub mod Moments
pub mod Laws
pub mod Cases
