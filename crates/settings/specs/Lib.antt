-- Document 01's rule of each entry of a configuration, the check, and what it says.
pub mod Rules
pub mod Check
pub mod Verdicts
