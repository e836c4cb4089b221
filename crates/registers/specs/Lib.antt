-- Document 01's paragraphs on registers, and the fleet of serial meters.
pub mod Fleet
pub mod Contents
pub mod Registers
pub mod Cases
pub mod Laws
