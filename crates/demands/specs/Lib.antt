-- The owner's demands, stated for an auditor: what a history says by itself, the three demands, what the change requests bring, the table, and tightness. Each statement has its proof in proofs/.
pub mod Account
pub mod Starts
pub mod Energy
pub mod State
pub mod Shown
pub mod Demand1
pub mod Demand2
pub mod Demand3
pub mod Profile
pub mod ClockBack
pub mod Repeats
pub mod Readout
pub mod Makers
pub mod Display
pub mod Table
pub mod Tightness
