-- What the code's searches and maps find, said of the rules; the laws of specs/Laws.antt; that no second result fits a contract.
pub mod Found
pub mod Made
pub mod Maps
pub mod Laws
pub mod Unique
pub mod Cases
