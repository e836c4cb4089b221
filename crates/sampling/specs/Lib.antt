-- Document 01's paragraphs on periods and samples, the runs that end at a closing, the periods that samples close, and what the code of a run keeps beside the state.
pub mod Periods
pub mod Samples
pub mod Laps
pub mod Closed
pub mod Kept
