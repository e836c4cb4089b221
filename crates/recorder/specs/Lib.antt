-- Document 01's paragraphs on samples, impulses, units, periods, bills and serial meters, the load profile, data sets that are booked, and the makers' lists.
pub mod Lists
pub mod Meters
pub mod Clock
pub mod Profile
pub mod Calls
pub mod Readout
pub mod History
pub mod Cases
pub mod Laws
