-- Document 01's paragraph on the tariff program, sentence by sentence, its laws, and lines 8 and 9 of its table.
pub mod Daily
pub mod Weekly
pub mod Seasons
pub mod Rules
pub mod Laws
pub mod Cases
