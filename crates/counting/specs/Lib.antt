-- Document 01's paragraphs on impulses, units, bills and levels; what the code works out by masks in their place; and that both agree.
pub mod Filter
pub mod Units
pub mod Bills
pub mod Levels
pub mod Bits
pub mod ByMask
pub mod Laws
